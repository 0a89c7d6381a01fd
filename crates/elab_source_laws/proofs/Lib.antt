mod Tells
